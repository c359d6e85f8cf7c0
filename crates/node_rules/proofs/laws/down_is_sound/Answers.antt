use Rattle.node_rules.proofs.DownSound.{down_has}
use Rattle.node_rules.proofs.laws.down_is_sound.Goals as goal

pub returns : goal.returns
returns c = λ scope low high at refs bound types k t s h f o ps number part d e g w.
    let kinds = c.types_are_those_of_the_typing.ensures in
    let values = c.bodies_have_their_values.ensures in
    let rules = c.rules_are_sound.ensures in
    down_has scope refs bound types (record {
      value = λ u ty g. kinds.value types u ty g;
      truth = λ u g. kinds.truth types u g;
      typed = λ u ty g e. c.typed_terms_have_values_of_their_types.ensures scope low high types u ty refs bound g e o;
      only = values.only;
      whole = λ ty v g. values.whole scope ty v g;
      up_one = rules.up_one;
      up_two = rules.up_two;
      down_one = rules.down_one;
      down_two = rules.down_two;
    }) at k t s h f ps number part d e g w
