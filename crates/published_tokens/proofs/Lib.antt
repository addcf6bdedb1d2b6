mod KindLemmas
