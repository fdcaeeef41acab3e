use Rattle.sd_types.proofs.declaration.check_own_body.Goals as goal

pub returns : goal.returns
returns c = rw c.in-Some.is (rw c.in_ok-modifies.ensures at c.check_body.ensures)
