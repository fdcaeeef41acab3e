use Rattle.std.proofs.Common.{◌≡◌, ◌++◌, ◌∷◌, take, codes}
use Rattle.sd_cert.specs.Fields.{AreSmall, numbers_text}
use Rattle.sd_cert.proofs.spelling.push_chain.Given as goal

abbrev pub invariant-loop-link : goal.invariant-loop-link
invariant-loop-link l = (l.text.items ≡ l.fn.text.items ++ (codes "chain " ++ numbers_text (l.equality ∷ take l.link-index l.links))) × AreSmall (take l.link-index l.links)
