use Rattle.clock.proofs.fraction.+hcf.Given as goal

abbrev pub decreases-hcf : goal.decreases-hcf
decreases-hcf l = l.b
