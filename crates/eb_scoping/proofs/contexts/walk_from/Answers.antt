use Rattle.std.proofs.Common.{◌≡◌, ◌∷◌, [], Contains, subst}
use Rattle.eb_scoping.proofs.ListLaws.{contains_here}
use Rattle.eb_scoping.proofs.WalkLaws.{begins_walk, only_one}
use Rattle.eb_scoping.proofs.contexts.walk_from.Goals as goal

pub returns : goal.returns
returns c = λ us. let x = c.args.name.now in begins_walk us (x ∷ []) c.empty_walk-walk.result c.reach.new.walk (λ q. x ≡ q) c.empty_walk-walk.ensures
    (λ q h. subst (λ z. Contains (x ∷ []) z) h (contains_here x [])) (λ q h. only_one x q h) c.in_ok-reach.ensures
