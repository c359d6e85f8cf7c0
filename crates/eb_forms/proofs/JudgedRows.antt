-- Rows of formulas.
use Rattle.std.proofs.Common.{◌≡◌, List, map, rules}
use Rattle.eb_value.specs.declared.types.EbType.{EbType}
use Rattle.eb_resolved.specs.declared.resolved.Resolved.{Resolved, the_lemmas}
use Rattle.eb_resolved.specs.declared.resolved.ResolvedNode.TheVariants as node
use Rattle.eb_forms.specs.declared.kind.Kind.TheVariants as kind
use Rattle.eb_forms.specs.Forms.{judge, judged, all_misplaced}

pub judge_extension : (types : List EbType) (r : Resolved) (ms : List Resolved) → r.node ≡ node.Extension ms → judge types r ≡ judged kind.Value r.place (all_misplaced (map (judge types) ms))
judge_extension types r ms is = search (rules, the_lemmas)

pub judge_partition : (types : List EbType) (r : Resolved) (ms : List Resolved) → r.node ≡ node.Partition ms → judge types r ≡ judged kind.Value r.place (all_misplaced (map (judge types) ms))
judge_partition types r ms is = search (rules, the_lemmas)
