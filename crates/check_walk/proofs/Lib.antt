pub mod WalkSteps
