use Rattle.std.proofs.Common.{◌≡◌, true, sym, subst, bytes_eq}
use Rattle.eb_scoping.proofs.NameLaws.{among_at}
use Rattle.eb_scoping.proofs.uses.is_among.Goals as goal

pub returns-then-eq : goal.returns-then-eq
returns-then-eq c = among_at (λ x. x.name) c.args.identifiers.now c.loop-other.other-index c.other-item.result c.args.name.now c.loop-other-test.true c.other-item.is
    (subst (λ z. bytes_eq z c.args.name.now ≡ true) c.as_str.ensures (sym c.if-eq.ensures))
