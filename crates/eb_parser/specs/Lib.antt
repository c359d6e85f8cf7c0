pub mod Signs
pub mod Grammar
pub mod Formulas
pub mod Fronts
-- how the reader goes on, as a means of proof; of public functions only `formula` and `formulas_are_found_at_the_front` cite it
pub mod steps
