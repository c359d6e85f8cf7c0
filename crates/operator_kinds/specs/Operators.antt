-- Kinds of operators: the relations whose right side may be a form, the product, and the arrows, each of which makes a set of
-- relations (Abrial, "Modeling in Event-B", 2010): which are total, surjective, functional, injective.
use Rattle.std.specs.Prelude.{Bool, true, false}
use Rattle.eb_syntax.specs.declared.ast.Operator.{Operator}
use Rattle.eb_syntax.specs.declared.ast.Operator.TheVariants as op

-- the relations whose right side may be a form
abbrev pub is_membership : Operator → Bool
is_membership op.MemberOf = true
is_membership op.NotMemberOf = true
is_membership op.SubsetOf = true
is_membership op.NotSubsetOf = true
is_membership op.ProperSubsetOf = true
is_membership op.NotProperSubsetOf = true
is_membership _ = false

-- it makes a set of pairs
abbrev pub is_product : Operator → Bool
is_product op.Product = true
is_product _ = false

-- it makes a set of relations
abbrev pub is_arrow : Operator → Bool
is_arrow op.Relation = true
is_arrow op.TotalRelation = true
is_arrow op.SurjectiveRelation = true
is_arrow op.TotalSurjectiveRelation = true
is_arrow op.PartialFunction = true
is_arrow op.TotalFunction = true
is_arrow op.PartialInjection = true
is_arrow op.TotalInjection = true
is_arrow op.PartialSurjection = true
is_arrow op.TotalSurjection = true
is_arrow op.Bijection = true
is_arrow _ = false

-- the domain of its relations is all of the left side
abbrev pub is_total : Operator → Bool
is_total op.TotalRelation = true
is_total op.TotalSurjectiveRelation = true
is_total op.TotalFunction = true
is_total op.TotalInjection = true
is_total op.TotalSurjection = true
is_total op.Bijection = true
is_total _ = false

-- the range of its relations is all of the right side
abbrev pub is_surjective : Operator → Bool
is_surjective op.SurjectiveRelation = true
is_surjective op.TotalSurjectiveRelation = true
is_surjective op.PartialSurjection = true
is_surjective op.TotalSurjection = true
is_surjective op.Bijection = true
is_surjective _ = false

-- its relations relate no value to two
abbrev pub is_function : Operator → Bool
is_function op.PartialFunction = true
is_function op.TotalFunction = true
is_function op.PartialInjection = true
is_function op.TotalInjection = true
is_function op.PartialSurjection = true
is_function op.TotalSurjection = true
is_function op.Bijection = true
is_function _ = false

-- its relations relate no two values to one
abbrev pub is_injection : Operator → Bool
is_injection op.PartialInjection = true
is_injection op.TotalInjection = true
is_injection op.Bijection = true
is_injection _ = false
