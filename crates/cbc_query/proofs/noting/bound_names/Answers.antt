use Rattle.std.proofs.Common.{◌≡◌, ◌∙◌, ap, ◌++◌, [], unwrap_or}
use Rattle.cbc_query.specs.Notes.{name_in, bound_in}
use Rattle.cbc_query.proofs.Naming.{name_is}
use Rattle.cbc_query.proofs.noting.bound_names.Goals as goal

pub returns : goal.returns
returns c =
    let all : c.as_slice.result.now ≡ bound_in c.args.formula.now =
    c.as_slice.ensures ∙ (c.in_ok-push_bound_in.ensures ∙ ap (λ z. z ++ bound_in c.args.formula.now) c.new-entries.ensures) in
    λ k. ap (λ o. unwrap_or o []) (c.in_ok-names.ensures k) ∙ (name_is k c.as_slice.result.now ∙ ap (λ es. name_in es k) all)
