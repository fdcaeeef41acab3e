-- A certificate shows one table.
use Rattle.std.specs.Prelude.{◌≡◌, ℕ, Bool, List}
use Rattle.sd_product.specs.Work.{PairedPrograms}
use Rattle.sd_cert.specs.declared.digest.Digests.{Digests}
use Rattle.sd_cert.specs.Accepts.{Accepts}

abbrev pub ShowsOneTable : Type 0
ShowsOneTable =
    (work : PairedPrograms) (digests : Digests) (bytes : List ℕ) (t u : List Bool) →
    Accepts work digests bytes t → Accepts work digests bytes u → t ≡ u
