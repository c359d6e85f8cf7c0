-- The scope of a text: what its scope block says, and the defaults for the rest.
use Rattle.std.specs.Prelude.{ℕ, ℤ, pos, negsuc, if◌then◌else◌, List, [], ◌∷◌}
use Rattle.std.specs.List.{flat_map}
use Rattle.std.specs.Str.{bytes_eq}
use Rattle.eb_syntax.specs.declared.units.ScopeSetting.{ScopeSetting}
use Rattle.eb_syntax.specs.declared.units.ScopeSetting.TheVariants as setting
use Rattle.eb_syntax.specs.declared.units.EbUnit.{EbUnit}
use Rattle.eb_syntax.specs.declared.units.EbUnit.TheVariants as eb
use Rattle.eb_value.specs.declared.scope.Scope.{Scope}
use Rattle.eb_model.specs.declared.model.EbModel.{EbModel}
use Rattle.eb_model.specs.declared.model.ModelPart.{ModelPart}
use Rattle.eb_model.specs.declared.model.ModelPart.TheVariants as part

abbrev pub unit_settings : EbUnit → List ScopeSetting
unit_settings (eb.Scope s) = s.settings
unit_settings (eb.Context c) = []
unit_settings (eb.Machine m) = []
unit_settings (eb.Queries qs) = []

-- the settings of a text's scope block, none without one
abbrev pub settings : List EbUnit → List ScopeSetting
settings us = flat_map unit_settings us

-- the least integer and the greatest: -4 and 8 where no setting says otherwise
abbrev pub integers : List ScopeSetting → ℤ × ℤ
integers [] = (negsuc 3, pos 8)
integers (setting.Integers place lo hi ∷ ss) = (lo, hi)
integers (setting.Size x n ∷ ss) = integers ss
integers (setting.Depth place n ∷ ss) = integers ss

-- how many atoms the carrier set of this name has: 3 where no setting says otherwise
abbrev pub size : List ℕ → List ScopeSetting → ℤ
size x [] = pos 3
size x (setting.Integers place lo hi ∷ ss) = size x ss
size x (setting.Size y n ∷ ss) = if bytes_eq x y.name then n else size x ss
size x (setting.Depth place n ∷ ss) = size x ss

-- how many events a sequence has at most: 3 where no setting says otherwise
abbrev pub depth : List ScopeSetting → ℤ
depth [] = pos 3
depth (setting.Integers place lo hi ∷ ss) = depth ss
depth (setting.Size x n ∷ ss) = depth ss
depth (setting.Depth place n ∷ ss) = n

-- the number, 0 for a negative one
abbrev pub natural : ℤ → ℕ
natural (pos n) = n
natural (negsuc n) = 0

abbrev pub part_sizes : List ScopeSetting → ModelPart → List ℕ
part_sizes ss (part.Carrier s x) = natural (size x.name ss) ∷ []
part_sizes ss (part.Constant x) = []
part_sizes ss (part.Variable x) = []
part_sizes ss (part.Axiom l) = []
part_sizes ss (part.Invariant l) = []
part_sizes ss (part.Event e) = []

-- the scope of these units, which have this model
abbrev pub scope_of : List EbUnit → EbModel → Scope
scope_of us m = record {
  lo = (integers (settings us)).0;
  hi = (integers (settings us)).1;
  sizes = flat_map (part_sizes (settings us)) m.parts;
  depth = natural (depth (settings us));
}
