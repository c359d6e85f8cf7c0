use Rattle.std.proofs.Common.{◌≡◌, ◌++◌, ◌-◌, take, drop, map, length, OnOk, rules}
use Rattle.std.specs.List.{join_with_byte}
use Rattle.std.specs.Prelude.{codes}
use Rattle.std.proofs.lemmas.Result.{on_ok_weaker}
use Rattle.eb_value.specs.Values.{pair, set}
use Rattle.eb_value.specs.Texts as spec
use Rattle.eb_value.proofs.TextLaws.{first_others, members_done, pair_written, set_written}
use Rattle.eb_value.proofs.text.+writing.Goals as goal

pub write_members-returns : goal.write_members-returns
write_members-returns t c =
    let first : c.write_value.new.text.items ≡ c.args.text.now.items ++ spec.value_text c.args.names.now c.first-item.result = search rules in
    members_done (spec.value_text c.args.names.now) c.args.members.now (take (length c.args.members.now - 1) (drop 1 c.args.members.now)) c.first-item.result c.args.text.now.items c.write_value.new.text.items c.loop-member.text.items c.loop-member.member-index
    (first_others c.args.members.now c.first-item.result c.in-len1-up.len_at_least c.first-item.is)
    first c.loop-member.invariant c.loop-member-test.false

pub write_value-returns-in_ok-write_value-in-Pair-2 : goal.write_value-returns-in_ok-write_value-in-Pair-2
write_value-returns-in_ok-write_value-in-Pair-2 t c =
    let is : c.args.value.now ≡ pair c.in-Pair.first c.in-Pair.second = search rules in
    let opened : c.extend_from_slice-in-Pair.new.self.items ≡ c.args.text.now.items ++ codes "(" = search rules in
    let first : c.write_value.new.text.items ≡ c.extend_from_slice-in-Pair.new.self.items ++ spec.value_text c.args.names.now c.in-Pair.first = search rules in
    let arrow : c.extend_from_slice-in-Pair-2.new.self.items ≡ c.write_value.new.text.items ++ codes "|->" = search rules in
    let second : c.write_value-in-Pair.new.text.items ≡ c.extend_from_slice-in-Pair-2.new.self.items ++ spec.value_text c.args.names.now c.in-Pair.second = search rules in
    let closed : OnOk c.extend_from_slice-in-Pair-3.result (c.extend_from_slice-in-Pair-3.new.self.items ≡ c.write_value-in-Pair.new.text.items ++ codes ")") = search rules in
    on_ok_weaker c.extend_from_slice-in-Pair-3.result
    (pair_written c.args.names.now c.args.value.now c.in-Pair.first c.in-Pair.second c.args.text.now.items c.extend_from_slice-in-Pair.new.self.items c.write_value.new.text.items c.extend_from_slice-in-Pair-2.new.self.items c.write_value-in-Pair.new.text.items c.extend_from_slice-in-Pair-3.new.self.items is opened first arrow second) closed

pub write_value-returns-in_ok-write_members-in-Set : goal.write_value-returns-in_ok-write_members-in-Set
write_value-returns-in_ok-write_members-in-Set t c =
    let is : c.args.value.now ≡ set c.in-Set.members = search rules in
    let opened : c.extend_from_slice-in-Set.new.self.items ≡ c.args.text.now.items ++ codes "{" = search rules in
    let members : c.write_members.new.text.items ≡ c.extend_from_slice-in-Set.new.self.items ++ join_with_byte 44 (map (spec.value_text c.args.names.now) c.in-Set.members) = search rules in
    let closed : OnOk c.extend_from_slice-in-Set-2.result (c.extend_from_slice-in-Set-2.new.self.items ≡ c.write_members.new.text.items ++ codes "}") = search rules in
    on_ok_weaker c.extend_from_slice-in-Set-2.result
    (set_written c.args.names.now c.args.value.now c.in-Set.members c.args.text.now.items c.extend_from_slice-in-Set.new.self.items c.write_members.new.text.items c.extend_from_slice-in-Set-2.new.self.items is opened members) closed
