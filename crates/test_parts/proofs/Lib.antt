mod PlacedLemmas
