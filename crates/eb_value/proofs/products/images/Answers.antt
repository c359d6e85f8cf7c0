use Rattle.std.proofs.Common.{rules}
use Rattle.std.specs.Ordering.{is_lt, is_le}
use Rattle.std.proofs.lemmas.List.Sorted.{IsPartitionPoint-from_clause}
use Rattle.eb_value.specs.steps.Joins
use Rattle.eb_value.proofs.Ascending.{rises}
use Rattle.eb_value.proofs.ProductLaws.{lt_partitioned, le_partitioned, places_up, images_slice}
use Rattle.eb_value.proofs.products.images.Goals as goal

pub slice_bounds-result-count : goal.slice_bounds-result-count
slice_bounds-result-count c =
    let up = rises c.args.s.now c.requires in
    let first = IsPartitionPoint-from_clause (λ v. is_lt (Joins.side c.args.k.now v)) c.args.s.now c.partition_point-start.result c.partition_point-start.ensures.partitioned (lt_partitioned c.args.s.now up c.args.k.now) (λ a r q h. search rules) in
    let last = IsPartitionPoint-from_clause (λ v. is_le (Joins.side c.args.k.now v)) c.args.s.now c.partition_point-end.result c.partition_point-end.ensures.partitioned (le_partitioned c.args.s.now up c.args.k.now) (λ a r q h. search rules) in
    places_up c.args.s.now c.args.k.now c.partition_point-start.result c.partition_point-end.result c.partition_point-start.ensures.bound c.partition_point-end.ensures.bound first.0 first.1 last.0 last.1

pub slice_bounds-result-start : goal.slice_bounds-result-start
slice_bounds-result-start c =
    let up = rises c.args.s.now c.requires in
    let first = IsPartitionPoint-from_clause (λ v. is_lt (Joins.side c.args.k.now v)) c.args.s.now c.partition_point-start.result c.partition_point-start.ensures.partitioned (lt_partitioned c.args.s.now up c.args.k.now) (λ a r q h. search rules) in
    let last = IsPartitionPoint-from_clause (λ v. is_le (Joins.side c.args.k.now v)) c.args.s.now c.partition_point-end.result c.partition_point-end.ensures.partitioned (le_partitioned c.args.s.now up c.args.k.now) (λ a r q h. search rules) in
    places_up c.args.s.now c.args.k.now c.partition_point-start.result c.partition_point-end.result c.partition_point-start.ensures.bound c.partition_point-end.ensures.bound first.0 first.1 last.0 last.1

pub returns : goal.returns
returns c =
    let up = rises c.args.s.now c.requires in
    let first = IsPartitionPoint-from_clause (λ v. is_lt (Joins.side c.args.k.now v)) c.args.s.now c.partition_point-start.result c.partition_point-start.ensures.partitioned (lt_partitioned c.args.s.now up c.args.k.now) (λ a r q h. search rules) in
    let last = IsPartitionPoint-from_clause (λ v. is_le (Joins.side c.args.k.now v)) c.args.s.now c.partition_point-end.result c.partition_point-end.ensures.partitioned (le_partitioned c.args.s.now up c.args.k.now) (λ a r q h. search rules) in
    images_slice c.args.s.now c.args.k.now c.partition_point-start.result c.partition_point-end.result c.partition_point-start.ensures.bound c.partition_point-end.ensures.bound first.0 first.1 last.0 last.1
