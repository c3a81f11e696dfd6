-- The questions put before any figure: document 01, "Before any figure: the checks". Definitions only.
use Rattle.std.specs.Prelude.{Bool, true, cond, List, [], ◌∷◌, ℕ}
use Rattle.refusals.specs.declared.questions.Questions.{Questions}

-- a question: its number, and whether its answer is yes
pub record Question : Type 0 where
  pub number : ℕ
  pub answer : Bool

-- question n with its answer
abbrev pub question : ℕ → Bool → Question
question n b = record { number = n; answer = b }

-- "The first no refuses": the number of the first question that is answered no, in the order of asking; 0 where there is none
unfoldable pub first_no : List Question → ℕ
first_no [] = 0
first_no (q ∷ qs) = cond q.answer (first_no qs) q.number

-- the eleven of document 01, "Before any figure: the checks", in its order
unfoldable pub asked : Questions → List Question
asked q =
    question 1 q.state
    ∷ question 2 q.clocks
    ∷ question 3 q.frame_size
    ∷ question 4 q.windows
    ∷ question 5 q.delay_samples
    ∷ question 6 q.output_buffer
    ∷ question 7 q.payload
    ∷ question 8 q.round_trip
    ∷ question 9 q.interval_bounds
    ∷ question 10 q.counters
    ∷ question 11 q.values
    ∷ []

-- "put only to a call that has the thing named": what a call does not have counts as yes
abbrev pub all_yes : Questions
all_yes =
    record {
      state = true;
      clocks = true;
      frame_size = true;
      windows = true;
      delay_samples = true;
      output_buffer = true;
      payload = true;
      round_trip = true;
      interval_bounds = true;
      counters = true;
      values = true;
    }
