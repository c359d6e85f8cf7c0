-- The names of the carrier sets of a text's model are plain, and can be read back.
use Rattle.std.proofs.Common.{◌≡◌, ℕ, true, List, [], ◌∷◌, refl}
use Rattle.std.specs.Prelude.{flat_map}
use Rattle.std.specs.List.{list_all}
use Rattle.eb_lexer.specs.declared.token.Token.{Token}
use Rattle.eb_lexer.specs.Tokens.{IsTokens}
use Rattle.eb_syntax.specs.declared.units.EbUnit.{EbUnit}
use Rattle.eb_units.specs.Grammar.{Reads}
use Rattle.eb_model.specs.declared.model.ModelPart.{ModelPart}
use Rattle.eb_model.specs.declared.model.ModelPart.TheVariants as part
use Rattle.eb_model.specs.declared.model.EbModel.{EbModel}
use Rattle.eb_model.specs.Models.{IsModelOf}
use Rattle.cbc_query.specs.Parts.{part_carriers, carriers}
use Rattle.carrier_names.specs.Plain.{is_plain_name}
use Rattle.carrier_names.proofs.Tests.{both_true, all_joined, are_true}
use Rattle.carrier_names.proofs.PlainUnits.{units_plain}
use Rattle.carrier_names.proofs.PlainModels.{is_plain_part, model_plain}

part_plain : (p : ModelPart) → is_plain_part p ≡ true → list_all is_plain_name (part_carriers p) ≡ true
part_plain (part.Carrier s x) h = are_true (is_plain_name x.name) true h refl
part_plain (part.Constant x) h = refl
part_plain (part.Variable x) h = refl
part_plain (part.Axiom l) h = refl
part_plain (part.Invariant l) h = refl
part_plain (part.Event e) h = refl

parts_plain : (ps : List ModelPart) → list_all is_plain_part ps ≡ true → list_all is_plain_name (flat_map part_carriers ps) ≡ true
parts_plain [] h = refl
parts_plain (p ∷ ps) h =
    let parts = both_true (is_plain_part p) (list_all is_plain_part ps) h in
    all_joined is_plain_name (part_carriers p) (flat_map part_carriers ps) (part_plain p parts.0) (parts_plain ps parts.1)

-- from the text to the model
pub carriers_plain : (text : List ℕ) (tokens : List Token) (units : List EbUnit) (height : ℕ) (m : EbModel) → IsTokens tokens text → Reads tokens units height → IsModelOf units m → list_all is_plain_name (carriers m) ≡ true
carriers_plain text tokens units height m t r k = parts_plain m.parts (model_plain units m (units_plain text tokens units height t r) k)
