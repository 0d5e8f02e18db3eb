pub mod Parameters
pub mod Unsorted
pub mod Sorting
pub mod Lengthening
pub mod Sorted
pub mod SortingExamples
