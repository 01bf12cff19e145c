mod DeedLemmas
mod ReplacementLemmas
