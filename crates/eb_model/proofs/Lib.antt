mod Marking
mod ReadingLaws
