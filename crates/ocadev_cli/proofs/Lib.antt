mod StoringLemmas
