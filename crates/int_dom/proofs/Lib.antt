pub mod IntervalLaws
