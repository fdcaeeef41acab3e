-- What the fields of `Work` say of one another.
use Rattle.std.specs.Prelude.{◌≡◌, ◌<◌, ◌^◌, true, length, replicate}
use Rattle.sd_runs.specs.Infallible.{infallible_of, entry_at}
use Rattle.sd_product.specs.Work.{PairedPrograms, AreWellFormed, pairs_in, candidate_lists}
use Rattle.sd_product.specs.Numbering.{firsts_from, places_from, FindsPairs}
use Rattle.sd_product.specs.declared.work.Work.TheInside.{Inside}

abbrev pub programs_in : Inside → PairedPrograms
programs_in w = record { old = w.old; new = w.new }

-- The programs are well formed, all their calls are kept, the infallible procedures, the pairs and the candidates are
-- theirs, and so are the tables.
pub record IsWork (w : Inside) : Type 0 where
  pub formed : AreWellFormed (programs_in w)
  pub old_infallible : entry_at w.old_infallible.items ≡ infallible_of w.old.procs
  pub new_infallible : entry_at w.new_infallible.items ≡ infallible_of w.new.procs
  pub old_kept : w.old_kept.items ≡ replicate (length w.old.procs) true
  pub new_kept : w.new_kept.items ≡ replicate (length w.new.procs) true
  pub are_pairs : w.pairs ≡ pairs_in (programs_in w)
  pub are_candidates : w.candidates.items ≡ candidate_lists (programs_in w) w.pairs
  pub finds_pairs : FindsPairs w.pair_of_old.items w.pairs
  pub are_firsts : w.first.items ≡ firsts_from 0 w.candidates.items
  pub are_places : w.places.items ≡ places_from 0 w.candidates.items
  pub few : length w.places.items < 2 ^ 32
