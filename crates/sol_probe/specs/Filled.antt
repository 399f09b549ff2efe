-- A list of at most 4,096 entries that is filled up.
use Rattle.std.specs.Prelude.{◌-◌, List, ◌++◌, length, take}
use Rattle.chc_nums.specs.declared.limits.TheConstants.{MAX_PROBES}

-- a list with as many of the others behind it as there is room for
unfoldable pub filled : {A : Type 0} → List A → List A → List A
filled all more = all ++ take (MAX_PROBES - length all) more
