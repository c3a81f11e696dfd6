-- The payload check (document 01, question 7): the status, and the two lengths by out-parameters, which are written only beside a 7. Definitions only.
use Rattle.std.specs.Prelude.{ℕ, List}
use Rattle.codec.specs.Reading.{length_answer, values_of, by_length}

-- the number of the length answer for n bytes
unfoldable pub check_status : ℕ → List ℕ → ℕ
check_status n payload = (values_of (length_answer payload 0 n)).refusal

-- the needed length where it refuses, else what the caller had there
unfoldable pub check_needed : ℕ → List ℕ → ℕ → ℕ
check_needed n payload was = by_length (length_answer payload 0 n) was (values_of (length_answer payload 0 n)).needed

-- the given length where it refuses, else what the caller had there
unfoldable pub check_given : ℕ → List ℕ → ℕ → ℕ
check_given n payload was = by_length (length_answer payload 0 n) was (values_of (length_answer payload 0 n)).given
