pub mod MixingHelpers
