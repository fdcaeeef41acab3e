-- What odd words name, computed line by line.
use Rattle.std.proofs.Common.{refl}
use Rattle.clap.proofs.OnLiterals.{clap_on_literals}
use Rattle.sd_words.specs.Laws.{Tell, OddWords, certificate_lines, number_lines, place_lines, other_lines}

certificates : Tell certificate_lines
unfolding clap_on_literals
certificates = (refl, (refl, (refl, (refl, (refl, (refl, (refl, (refl, (refl, (refl, (refl, (refl, (refl, (refl, tt))))))))))))))

numbers : Tell number_lines
unfolding clap_on_literals
numbers = (refl, (refl, (refl, (refl, (refl, (refl, (refl, (refl, (refl, (refl, (refl, (refl, tt))))))))))))

places : Tell place_lines
unfolding clap_on_literals
places = (refl, (refl, (refl, (refl, (refl, (refl, (refl, (refl, (refl, (refl, (refl, (refl, (refl, tt)))))))))))))

others : Tell other_lines
unfolding clap_on_literals
others = (refl, (refl, (refl, (refl, (refl, (refl, (refl, (refl, (refl, (refl, (refl, tt)))))))))))

pub odd_lines : OddWords
odd_lines = (certificates, numbers, places, others)
