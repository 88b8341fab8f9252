mod Cuts
mod Digits
mod MutatorArguments
mod PlainTexts
