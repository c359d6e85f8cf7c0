-- The identifiers that formulas bind.
use Rattle.std.proofs.Common.{◌≡◌, ◌∙◌, refl, sym, ap, ap₂, ℕ, ◌+◌, ◌<◌, List, [], ◌∷◌, ◌++◌, length, map, take, get_or, length-append, arith, rules}
use Rattle.std.proofs.lemmas.Grind.{flat_map-append}
use Rattle.std.proofs.lemmas.List.{append-nil, take_more, length-take-le}
use Rattle.eb_syntax.specs.declared.ast.Mark.{Mark}
use Rattle.eb_forms.specs.Widths.{mark_identifiers}
use Rattle.std.specs.List.{flat_map}
use Rattle.std.proofs.lemmas.List.Folds.{flat_map-map}
use Rattle.eb_syntax.specs.declared.ast.Identifier.{Identifier}
use Rattle.eb_resolved.specs.declared.resolved.Resolved.{Resolved, fold_out-Resolved}
use Rattle.eb_resolved.specs.declared.resolved.ResolvedNode.{the_lemmas}
use Rattle.eb_resolved.specs.declared.resolved.ResolvedNode.TheVariants as node
use Rattle.eb_resolved.specs.Resolving.{entries_from}
use Rattle.cbc_query.specs.Notes.{bound_in}

extension_by_parts : (r : Resolved) (ms : List Resolved) → r.node ≡ node.Extension ms → bound_in r ≡ flat_map (λ e. e) (map bound_in ms)
extension_by_parts r ms p = search (rules, fold_out-Resolved, the_lemmas, p)

pub extension_binds : (r : Resolved) (ms : List Resolved) → r.node ≡ node.Extension ms → bound_in r ≡ flat_map bound_in ms
extension_binds r ms p = extension_by_parts r ms p ∙ flat_map-map (λ e. e) bound_in ms

partition_by_parts : (r : Resolved) (ms : List Resolved) → r.node ≡ node.Partition ms → bound_in r ≡ flat_map (λ e. e) (map bound_in ms)
partition_by_parts r ms p = search (rules, fold_out-Resolved, the_lemmas, p)

pub partition_binds : (r : Resolved) (ms : List Resolved) → r.node ≡ node.Partition ms → bound_in r ≡ flat_map bound_in ms
partition_binds r ms p = partition_by_parts r ms p ∙ flat_map-map (λ e. e) bound_in ms

pub entries-append : (n : ℕ) (xs ys : List Identifier) → entries_from n (xs ++ ys) ≡ entries_from n xs ++ entries_from (n + length xs) ys
entries-append n [] ys = ap (λ k. entries_from k ys) (omega arith)
entries-append n (x ∷ xs) ys = ap₂ (λ e es. e ∷ es) refl (entries-append (n + 1) xs ys ∙ ap (λ k. entries_from (n + 1) xs ++ entries_from k ys) (omega arith))

-- ---- one more

taken : {X : Type 0} (xs : List X) (i : ℕ) (x : X) → i < length xs → x ≡ get_or xs i x → take (i + 1) xs ≡ take i xs ++ x ∷ []
taken xs i x h e = take_more xs i x h ∙ ap (λ y. take i xs ++ y ∷ []) (sym e)

pub identifier_next : (first i : ℕ) (xs : List Identifier) (x : Identifier) → i < length xs → x ≡ get_or xs i x
    → entries_from first (take (i + 1) xs) ≡ entries_from first (take i xs) ++ entries_from (first + i) (x ∷ [])
identifier_next first i xs x h e =
    ap (entries_from first) (taken xs i x h e)
    ∙ (entries-append first (take i xs) (x ∷ []) ∙ ap (λ n. entries_from first (take i xs) ++ entries_from (first + n) (x ∷ [])) (length-take-le i xs (omega arith)))

pub marks_next : (i : ℕ) (ms : List Mark) (m : Mark) → i < length ms → m ≡ get_or ms i m
    → flat_map mark_identifiers (take (i + 1) ms) ≡ flat_map mark_identifiers (take i ms) ++ mark_identifiers m
marks_next i ms m h e =
    ap (flat_map mark_identifiers) (taken ms i m h e)
    ∙ (flat_map-append mark_identifiers (take i ms) (m ∷ []) ∙ ap (λ z. flat_map mark_identifiers (take i ms) ++ z) (append-nil (mark_identifiers m)))

pub mark_next : (first i : ℕ) (ms : List Mark) (m : Mark) → i < length ms → m ≡ get_or ms i m
    → entries_from first (flat_map mark_identifiers (take (i + 1) ms))
    ≡ entries_from first (flat_map mark_identifiers (take i ms)) ++ entries_from (first + length (flat_map mark_identifiers (take i ms))) (mark_identifiers m)
mark_next first i ms m h e = ap (entries_from first) (marks_next i ms m h e) ∙ entries-append first (flat_map mark_identifiers (take i ms)) (mark_identifiers m)

pub marks_length : (i : ℕ) (ms : List Mark) (m : Mark) → i < length ms → m ≡ get_or ms i m
    → length (flat_map mark_identifiers (take (i + 1) ms)) ≡ length (flat_map mark_identifiers (take i ms)) + length (mark_identifiers m)
marks_length i ms m h e = ap length (marks_next i ms m h e) ∙ length-append (flat_map mark_identifiers (take i ms)) (mark_identifiers m)
