pub mod Grammar
pub mod Faults
-- how the reader goes on, as a means of proof; no public function cites it
pub mod steps
