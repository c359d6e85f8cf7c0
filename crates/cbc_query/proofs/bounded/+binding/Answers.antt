use Rattle.std.proofs.Common.{◌∙◌, sym, ap}
use Rattle.std.specs.List.{flat_map}
use Rattle.cbc_query.specs.Notes.{bound_in}
use Rattle.cbc_query.proofs.Bindings.{extension_binds, partition_binds}
use Rattle.cbc_query.proofs.Ranges.{after_one}
use Rattle.cbc_query.proofs.bounded.+binding.Goals as goal

pub push_bound_in-returns-in-Extension : goal.push_bound_in-returns-in-Extension
push_bound_in-returns-in-Extension t c =
    after_one c.push_bound_in_all.result c.push_bound_in_all.new.all c.args.all.now (flat_map bound_in c.as_slice-in-Extension.result.now) (bound_in c.args.formula.now)
    c.push_bound_in_all.ensures
    (extension_binds c.args.formula.now c.in-Extension.members c.in-Extension.is ∙ ap (flat_map bound_in) (sym c.as_slice-in-Extension.ensures))

pub push_bound_in-returns-in-Partition : goal.push_bound_in-returns-in-Partition
push_bound_in-returns-in-Partition t c =
    after_one c.push_bound_in_all-in-Partition.result c.push_bound_in_all-in-Partition.new.all c.args.all.now (flat_map bound_in c.as_slice-in-Partition.result.now) (bound_in c.args.formula.now)
    c.push_bound_in_all-in-Partition.ensures
    (partition_binds c.args.formula.now c.in-Partition.members c.in-Partition.is ∙ ap (flat_map bound_in) (sym c.as_slice-in-Partition.ensures))
