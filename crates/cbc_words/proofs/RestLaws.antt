-- The files of REST and the word behind them.
use Rattle.std.proofs.Common.{◌≡◌, ◌∙◌, ◌-◌, List, [], ◌∷◌, ◌++◌, refl, ap, length, arith}
use Rattle.std.specs.Prelude.{Option, Some, None, option_and_then, option_map, slice_get}
use Rattle.std.proofs.lemmas.List.{length-append}
use Rattle.std.proofs.lemmas.Option.{slice_get-get_or}
use Rattle.std.proofs.Math.Seq.{get_or-append_seam, take-append_seam}
use Rattle.cbc_words.specs.Actions.{Text, some_files, files_and_last}

last_of : (files : List Text) (last : Text) → slice_get (files ++ last ∷ []) (length files) ≡ Some last
last_of files last =
    slice_get-get_or (files ++ last ∷ []) (length files) last (omega (arith, length-append files (last ∷ [])))
    ∙ ap (λ (x : Text). Some x) (get_or-append_seam files last [] last)

with_last : (last : Text) (o : Option (List Text))
    → option_and_then {U = List Text × Text} (λ fs. Some (fs, last)) o ≡ option_map {U = List Text × Text} (λ fs. (fs, last)) o
with_last last None = refl
with_last last (Some fs) = refl

pub files_and_last-append : (files : List Text) (last : Text)
    → files_and_last (files ++ last ∷ []) ≡ option_map {U = List Text × Text} (λ fs. (fs, last)) (some_files files)
files_and_last-append files last =
    let before : length (files ++ last ∷ []) - 1 ≡ length files = omega (arith, length-append files (last ∷ [])) in
    rw (before, last_of files last, take-append_seam files (last ∷ [])) (with_last last (some_files files))
