use Rattle.search_tests.proofs.kinds.+unions.Given as goal

abbrev pub decreases-unions : goal.decreases-unions
decreases-unions l = l.levels
