use Rattle.std.proofs.Common.{◌≡◌, true, sym, subst, bytes_eq}
use Rattle.eb_lower.proofs.FactLaws.{among_at}
use Rattle.eb_lower.proofs.known.is_listed.Goals as goal

pub returns-then-eq : goal.returns-then-eq
returns-then-eq c = let other = c.in-Some.other.now in
    among_at (λ x. x.name) c.args.names.now c.hinted_place.result other c.args.name.now c.in-Some.ensures.lookup.3.0 c.in-Some.ensures.lookup.1
    (subst (λ z. bytes_eq z c.args.name.now ≡ true) c.as_str-in-Some.ensures (sym c.if-eq.ensures))
