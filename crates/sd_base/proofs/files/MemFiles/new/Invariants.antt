use Rattle.std.proofs.Common.{◌≡◌, ◌≤◌, ◌++◌, map, length, vec_len}
use Rattle.std.specs.Prelude.{All}
use Rattle.sd_base.specs.Memory.{file_with}
use Rattle.sd_base.proofs.files.MemFiles.new.Given as goal

abbrev pub invariant-files : goal.invariant-files
invariant-files l = record {
  made : map (file_with l.room) l.fn.files.items ≡ l.made.items ++ map (file_with l.room) l.files.items;
  fit : All (λ file. length file.1.items ≤ l.room) l.files.items;
}

abbrev pub decreases-files : goal.decreases-files
decreases-files l = vec_len l.files
