pub mod WellDefined
