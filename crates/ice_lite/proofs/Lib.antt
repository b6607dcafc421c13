mod PastLemmas
