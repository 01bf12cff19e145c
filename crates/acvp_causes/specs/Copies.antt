-- The names of copies that are being made, or were left by a killed command.
use Rattle.std.specs.Prelude.{◌-◌, ◌&&◌, ◌||◌, ℕ, Bool, List, codes, drop, length, take}
use Rattle.std.specs.List.{list_all}
use Rattle.std.specs.Char.{is_ascii_digit}
use Rattle.acvp_causes.specs.Folders.{ends, last_of}

-- how many digits a moment has, in billionths of a second since 1970
abbrev pub moment_digits : ℕ
moment_digits = 19

-- a name that ends in the word of a copy and in the digits of a moment
abbrev pub is_copy_name : List ℕ → Bool
is_copy_name name =
    let front = length name - moment_digits in
    (ends (take front name) (codes "-part-") || ends (take front name) (codes "-look-"))
    && list_all is_ascii_digit (drop front name)

-- a path whose last name is that of a copy
abbrev pub is_copy : List ℕ → Bool
is_copy path = is_copy_name (last_of path)
