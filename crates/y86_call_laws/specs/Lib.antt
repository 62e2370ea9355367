pub mod CheckedRuns
