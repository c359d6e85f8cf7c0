use Rattle.std.proofs.Common.{◌∙◌, map, sym, ap}
use Rattle.std.proofs.lemmas.List.{map-set, length-map}
use Rattle.std.proofs.Math.ListN.{set}
use Rattle.std.proofs.Math.Seq.{map-set_same}
use Rattle.problem_nodes.specs.declared.lists.Entry.{Entry}
use Rattle.problem_nodes.proofs.PushLaws.{the_record}
use Rattle.problem_nodes.proofs.lists.Lists.close.Goals as goal

pub returns : goal.returns
returns c =
    let entries = c.self.inside.entries in
    let items = entries.items in
    let old = c.index_mut.result.now in
    let k = c.args.number in
    let new : Entry = record { term = old.term; above = old.above; end = c.len-end.result } in
    let terms = map-set_same (λ e. e.term.now) items k new old (ap (λ e. e.term.now) c.index_mut.ensures.value) in
    let aboves = map-set_same (λ e. e.above) items k new old (ap (λ e. e.above) c.index_mut.ensures.value) in
    let ends = map-set (λ e. e.end) items k new ∙ ap (λ n. set (map (λ e. e.end) items) k n) (c.len-end.ensures ∙ entries.ok.0 ∙ sym (length-map items (λ e. e.term.now))) in
    (λ i. record { terms = terms i; aboves = aboves i; ends = ends i }) ∙ ap (λ l. the_record l k) c.self.view_is
