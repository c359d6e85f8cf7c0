use Rattle.std.proofs.Common.{◌≡◌, ◌∙◌, ◌||◌, Bool, true, false, cond, refl, ap, bytes_eq}
use Rattle.std.proofs.lemmas.Map.Text.{is_eq-slice_cmp}
use Rattle.eb_scoping.specs.Sets.{has_text}
use Rattle.eb_scoping.proofs.sets.insert_name.Goals as goal

cond_or : (b x : Bool) → cond b true x ≡ (b || x)
cond_or true x = refl
cond_or false x = refl

pub returns : goal.returns
returns c = λ q. let old = has_text c.args.names.now q in
    c.in_ok-insert.ensures.updates.0 (record { ref_ptr = (0, 0); now = q }) ∙ (ap (λ z. cond z true old) (is_eq-slice_cmp c.args.name.now q) ∙ cond_or (bytes_eq c.args.name.now q) old)
