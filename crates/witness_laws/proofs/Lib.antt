mod Alike
mod Hypotheses
mod Known
mod Lowered
