mod ListLaws
mod FormulaLaws
mod KeyLaws
mod RepeatLaws
mod UnitLaws
