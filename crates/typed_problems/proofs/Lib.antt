mod Hypotheses
mod Carriers
mod Known
mod Facts
