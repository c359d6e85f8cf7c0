-- Relations: sets of pairs (Abrial, "Modeling in Event-B", 2010; Métayer and Voisin, "The Event-B
-- Mathematical Language", 2009). Each operator by what its result has.
use Rattle.std.specs.Prelude.{◌≡◌, ◌≢◌, ◌⊎◌, List}
use Rattle.std.specs.List.{Contains}
use Rattle.eb_value.specs.declared.value.Value.{Value}
use Rattle.eb_value.specs.Values.{pair}

-- x ↦ y ∈ r
abbrev pub Relates : List Value → Value → Value → Type 0
Relates r x y = Contains r (pair x y)

-- v ∈ a × b
abbrev pub InCross : List Value → List Value → Value → Type 0
InCross a b v = (x : Value) × (y : Value) × (v ≡ pair x y) × Contains a x × Contains b y

-- v ∈ s ◁ r
abbrev pub InDomKeep : List Value → List Value → Value → Type 0
InDomKeep s r v = (x : Value) × (y : Value) × (v ≡ pair x y) × Contains s x × Relates r x y

-- v ∈ s ⩤ r
abbrev pub InDomDrop : List Value → List Value → Value → Type 0
InDomDrop s r v = (x : Value) × (y : Value) × (v ≡ pair x y) × ¬ Contains s x × Relates r x y

-- v ∈ r ▷ s
abbrev pub InRanKeep : List Value → List Value → Value → Type 0
InRanKeep r s v = (x : Value) × (y : Value) × (v ≡ pair x y) × Relates r x y × Contains s y

-- v ∈ r ⩥ s
abbrev pub InRanDrop : List Value → List Value → Value → Type 0
InRanDrop r s v = (x : Value) × (y : Value) × (v ≡ pair x y) × Relates r x y × ¬ Contains s y

-- x ∈ dom(r)
abbrev pub InDomain : List Value → Value → Type 0
InDomain r x = (y : Value) × Relates r x y

-- y ∈ ran(r)
abbrev pub InRange : List Value → Value → Type 0
InRange r y = (x : Value) × Relates r x y

-- v ∈ f overridden by g: in g, or in f at a first that is not in the domain of g
abbrev pub InOverlay : List Value → List Value → Value → Type 0
InOverlay f g v = Contains g v ⊎ ((x : Value) × (y : Value) × (v ≡ pair x y) × Relates f x y × ¬ InDomain g x)

-- v ∈ r∼
abbrev pub InInverse : List Value → Value → Type 0
InInverse r v = (x : Value) × (y : Value) × (v ≡ pair y x) × Relates r x y

-- y ∈ r[s]
abbrev pub InImage : List Value → List Value → Value → Type 0
InImage r s y = (x : Value) × Contains s x × Relates r x y

-- v ∈ r ; s, first r and then s
abbrev pub InCompose : List Value → List Value → Value → Type 0
InCompose r s v = (x : Value) × (y : Value) × (z : Value) × (v ≡ pair x z) × Relates r x y × Relates s y z

-- v ∈ r ⊗ s, the direct product
abbrev pub InDirect : List Value → List Value → Value → Type 0
InDirect r s v = (x : Value) × (y : Value) × (z : Value) × (v ≡ pair x (pair y z)) × Relates r x y × Relates s x z

-- v ∈ r ∥ s, the parallel product
abbrev pub InParallel : List Value → List Value → Value → Type 0
InParallel r s v = (x : Value) × (y : Value) × (u : Value) × (z : Value)
    × (v ≡ pair (pair x u) (pair y z)) × Relates r x y × Relates s u z

-- two pairs of f have one first and different seconds
abbrev pub IsAmbiguous : List Value → Type 0
IsAmbiguous f = (x : Value) × (y : Value) × (z : Value) × Relates f x y × Relates f x z × (y ≢ z)
