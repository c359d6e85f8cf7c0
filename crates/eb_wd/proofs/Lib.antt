mod ConditionsAt
mod MeaningAt
mod Judged
mod SaysDefined
mod TermInduction
mod Truths
mod TypedSlots
mod WellDefinedAt
