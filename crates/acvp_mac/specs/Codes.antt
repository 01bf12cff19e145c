-- One-time codes of a time step (RFC 4226 and RFC 6238), and which step a code stands for.
use Rattle.std.specs.Prelude.{◌≡◌, ℕ, zero, suc, ◌+◌, ◌/◌, ◌%◌, ◌^◌, ◌<◌, ◌≤◌, ◌⊎◌, Bool, true, ◌==◌, nat_lt, ◌&&◌}
use Rattle.std.specs.Prelude.{◌||◌, if◌then◌else◌, Option, None, Some, MatchOption, IfSome, List, take, drop}
use Rattle.std.specs.Prelude.{slice_index}
use Rattle.std.specs.Int.{w32, w64, from_be_bytes, to_be_bytes}
use Rattle.acvp_mac.specs.declared.HashName.TheVariants.{Sha256}
use Rattle.acvp_mac.specs.Hmac.{hmac_of}

-- the time step of a moment, of 30 seconds each from 1970 on (RFC 6238)
abbrev pub step_of : ℕ → ℕ
step_of moment = moment / 30

-- HMAC-SHA-256 of a step as 8 bytes, high byte first (RFC 4226, section 5.2; RFC 6238, section 1.2)
abbrev pub step_mac : List ℕ → ℕ → List ℕ
step_mac secret step = hmac_of Sha256 secret (to_be_bytes w64 step)

-- four bytes of a code from the offset that the low four bits of its last byte give, high byte
-- first, without the top bit (RFC 4226, section 5.3)
abbrev pub truncated : List ℕ → ℕ
truncated mac = from_be_bytes w32 (take 4 (drop (slice_index mac 31 % 16) mac)) % 2 ^ 31

-- the code of a step, of 8 digits (RFC 4226, section 5.3)
unfoldable pub code_of : List ℕ → ℕ → ℕ
code_of secret step = truncated (step_mac secret step) % 100000000

-- step s comes after the last step that was used
abbrev pub IsUnused : Option ℕ → ℕ → Type 0
IsUnused last s = IfSome last (λ used. used < s)

-- step s has this code, is the step of the moment or the one before it, and comes after the last
-- step that was used
pub record IsAcceptable (secret : List ℕ) (last : Option ℕ) (moment code s : ℕ) : Type 0 where
  pub recent : (s ≡ step_of moment) ⊎ (s + 1 ≡ step_of moment)
  pub unused : IsUnused last s
  pub right : code_of secret s ≡ code

-- step s is acceptable, and no other one that is comes after it
pub record IsLastAcceptable (secret : List ℕ) (last : Option ℕ) (moment code s : ℕ) : Type 0 where
  pub acceptable : IsAcceptable secret last moment code s
  pub greatest : (t : ℕ) → IsAcceptable secret last moment code t → t ≤ s

-- the step that is accepted is the greatest of all acceptable ones, and none where there is none
abbrev pub IsAcceptedStep : List ℕ → Option ℕ → ℕ → ℕ → Option ℕ → Type 0
IsAcceptedStep secret last moment code accepted =
    MatchOption accepted ((s : ℕ) → ¬ IsAcceptable secret last moment code s)
    (IsLastAcceptable secret last moment code)

-- the greatest number up to n that passes a test
abbrev pub greatest_where : (ℕ → Bool) → ℕ → Option ℕ
greatest_where test zero = if test zero then Some zero else None
greatest_where test (suc n) = if test (suc n) then Some (suc n) else greatest_where test n

-- whether a step comes after the last step that was used
abbrev pub is_unused : Option ℕ → ℕ → Bool
is_unused None s = true
is_unused (Some used) s = nat_lt used s

-- whether a step is acceptable
abbrev pub is_acceptable : List ℕ → Option ℕ → ℕ → ℕ → ℕ → Bool
is_acceptable secret last moment code s =
    (s == step_of moment || s + 1 == step_of moment) && is_unused last s && code_of secret s == code

-- the one answer that is accepted, as a value
unfoldable pub accepted : List ℕ → Option ℕ → ℕ → ℕ → Option ℕ
accepted secret last moment code = greatest_where (is_acceptable secret last moment code) (step_of moment)
