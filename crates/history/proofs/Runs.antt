-- The inductions over a list of calls, for any machine whose refused calls hand the records back as they were: what every accepted call keeps
-- holds at the end, and calls that may be struck out leave every other answer, and a list that may stand.
use mathlib.Core.Path.{◌≡◌, refl, ap₂}
use mathlib.Core.Logic.{◌≢◌}
use mathlib.Core.Bool.{Bool, true, false, cond, ◌&&◌}
use mathlib.Core.List.{List, [], ◌∷◌}
use Prim.Native.Nat.{ℕ, zero, suc}
use native.Mathlib.Omega.{arith}
use Rattle.refusals.proofs.Clauses.{right}
use Rattle.history.specs.Run.{
  Machine,
  Entry,
  All,
  all_nil,
  all_cons,
  noted,
  entry,
  written_from,
  reached_from,
  accepted_from,
  fits,
  not_full,
  Left,
  Shown,
  left_from,
  struck_from,
  calls_left,
  as_they_were,
  restored,
}

module _ (𝓜 : Machine)
    -- a refused call moves nothing
    (still : (c : 𝓜.Call) (w : 𝓜.World) → (𝓜.step c w).refusal ≢ 0 → (𝓜.step c w).state ≡ w)
    -- what ties the records to the log, and every accepted call keeps it
    (Tied : 𝓜.Log → 𝓜.World → Type 0)
    (tied_next : (c : 𝓜.Call) (x : 𝓜.Log) (w : 𝓜.World) → 𝓜.Fits c 0 x → (𝓜.step c w).refusal ≡ 0 → Tied x w → Tied (𝓜.note c x) (𝓜.step c w).state) where
  tied_step : (c : 𝓜.Call) (x : 𝓜.Log) (w : 𝓜.World) → 𝓜.Fits c (𝓜.step c w).refusal x → Tied x w → Tied (noted 𝓜 c (𝓜.step c w).refusal x) (𝓜.step c w).state
  tied_step c x w f t = go (𝓜.step c w).refusal refl f
    where
      go : (n : ℕ) → (𝓜.step c w).refusal ≡ n → 𝓜.Fits c n x → Tied (noted 𝓜 c n x) (𝓜.step c w).state
      go zero e f = tied_next c x w f e t
      go (suc n) e f = rw (still c w (λ z. absurd (omega arith))) t

  pub tied_run : (h : List 𝓜.Call) {x : 𝓜.Log} {w : 𝓜.World} → All (fits 𝓜) (written_from 𝓜 w x h) → Tied x w → Tied (accepted_from 𝓜 x (written_from 𝓜 w x h)) (reached_from 𝓜 w h)
  unfolding written_from reached_from accepted_from
  tied_run [] fs t = t
  tied_run (c ∷ h) {x} {w} (all_cons f fs) t = tied_run h fs (tied_step c x w f t)

  -- what follows of each answer holds of all
  pub all_run :
      (P : Entry 𝓜 → Type 0) →
      ((c : 𝓜.Call) (x : 𝓜.Log) (w : 𝓜.World) → Tied x w → P (entry 𝓜 c w x)) →
      (h : List 𝓜.Call) {x : 𝓜.Log} {w : 𝓜.World} →
      All (fits 𝓜) (written_from 𝓜 w x h) →
      Tied x w →
      All P (written_from 𝓜 w x h)
  unfolding written_from
  all_run P one [] fs t = all_nil
  all_run P one (c ∷ h) {x} {w} (all_cons f fs) t = all_cons (one c x w t) (all_run P one h fs (tied_step c x w f t))

  -- two runs side by side: Like t w v, where v has had the calls t fewer; LogLike x y, what was noted in the two
  module _ {Struck : Type 0} (more : 𝓜.Call → Struck → Struck) (may : Entry 𝓜 → Bool) (restore : Struck → 𝓜.Call → ℕ → 𝓜.Answer → 𝓜.Answer)
      (Like : Struck → 𝓜.World → 𝓜.World → Type 0)
      (LogLike : 𝓜.Log → 𝓜.Log → Type 0)
      (refused_alike : (c : 𝓜.Call) (t : Struck) (x : 𝓜.Log) (w v : 𝓜.World) → Tied x w → Like t w v → (𝓜.step c w).refusal ≢ 10 → (𝓜.step c v).refusal ≡ (𝓜.step c w).refusal)
      (answered-alike : (c : 𝓜.Call) (t : Struck) (x : 𝓜.Log) (w v : 𝓜.World) → Tied x w → Like t w v → (𝓜.step c v).refusal ≡ (𝓜.step c w).refusal →
      restore t c (𝓜.step c v).refusal (𝓜.step c v).answer ≡ (𝓜.step c w).answer)
      (moved-alike : (c : 𝓜.Call) (t : Struck) (x : 𝓜.Log) (w v : 𝓜.World) → 𝓜.Fits c 0 x → Tied x w → Like t w v → (𝓜.step c w).refusal ≡ 0 → (𝓜.step c v).refusal ≡ 0 →
      Like t (𝓜.step c w).state (𝓜.step c v).state)
      (idle : (c : 𝓜.Call) (t : Struck) (x : 𝓜.Log) (w v : 𝓜.World) → Tied x w → Like t w v → may (entry 𝓜 c w x) ≡ true → Like (more c t) (𝓜.step c w).state v)
      (fits-alike : (c : 𝓜.Call) (n : ℕ) (x y : 𝓜.Log) → LogLike x y → 𝓜.Fits c n x → 𝓜.Fits c n y)
      (noted-alike : (c : 𝓜.Call) (x y : 𝓜.Log) → LogLike x y → LogLike (𝓜.note c x) (𝓜.note c y))
      (unnoted : (c : 𝓜.Call) (x y : 𝓜.Log) (w : 𝓜.World) → LogLike x y → may (entry 𝓜 c w x) ≡ true → LogLike (noted 𝓜 c (𝓜.step c w).refusal x) y) where
    pub record Same (v w : 𝓜.World) (y : 𝓜.Log) (ls : List (Left 𝓜 Struck)) (t : Struck) (h : List 𝓜.Call) : Type 0 where
      pub answers : restored 𝓜 restore ls (written_from 𝓜 v y (calls_left 𝓜 ls)) ≡ as_they_were 𝓜 ls
      pub records : Like t (reached_from 𝓜 w h) (reached_from 𝓜 v (calls_left 𝓜 ls))
      pub fit : All (fits 𝓜) (written_from 𝓜 v y (calls_left 𝓜 ls))

    state_alike : (c : 𝓜.Call) (t : Struck) (x : 𝓜.Log) (w v : 𝓜.World) → 𝓜.Fits c (𝓜.step c w).refusal x → Tied x w → Like t w v → (𝓜.step c v).refusal ≡ (𝓜.step c w).refusal →
        Like t (𝓜.step c w).state (𝓜.step c v).state
    state_alike c t x w v f tied l e = go (𝓜.step c w).refusal refl e f
      where
        go : (n : ℕ) → (𝓜.step c w).refusal ≡ n → (𝓜.step c v).refusal ≡ n → 𝓜.Fits c n x → Like t (𝓜.step c w).state (𝓜.step c v).state
        go zero p q f = moved-alike c t x w v f tied l p q
        go (suc n) p q f = rw (still c w (λ z. absurd (omega arith)), still c v (λ z. absurd (omega arith))) l

    log_alike : (c : 𝓜.Call) (n : ℕ) (x y : 𝓜.Log) → LogLike x y → LogLike (noted 𝓜 c n x) (noted 𝓜 c n y)
    log_alike c zero x y g = noted-alike c x y g
    log_alike c (suc n) x y g = g

    -- the log of the second run, y, is its own
    pub strike_run :
        (h : List 𝓜.Call) (places : ℕ → Bool) (t : Struck) (x y : 𝓜.Log) (w v : 𝓜.World) →
        All (fits 𝓜) (written_from 𝓜 w x h) →
        Tied x w →
        Like t w v →
        LogLike x y →
        All (not_full 𝓜) (written_from 𝓜 w x h) →
        Same v w y (left_from 𝓜 more may places t (written_from 𝓜 w x h)) (struck_from 𝓜 more may places t (written_from 𝓜 w x h)) h
    unfolding written_from reached_from left_from struck_from restored
    strike_run [] places t x y w v fs tied l g full = record { answers = refl; records = l; fit = all_nil }
    strike_run (c ∷ h) places t x y w v (all_cons f fs) tied l g (all_cons ne full) =
        go (places 0 && may (entry 𝓜 c w x)) refl
        (λ l' g'. strike_run h (λ i. places (suc i)) (more c t) (noted 𝓜 c (𝓜.step c w).refusal x) y (𝓜.step c w).state v fs (tied_step c x w f tied) l' g' full)
        (λ l' g'. strike_run h (λ i. places (suc i)) t (noted 𝓜 c (𝓜.step c w).refusal x) (noted 𝓜 c (𝓜.step c v).refusal y) (𝓜.step c w).state (𝓜.step c v).state fs (tied_step c x w f tied) l' g' full)
      where
        rest : List (Entry 𝓜)
        rest = written_from 𝓜 (𝓜.step c w).state (noted 𝓜 c (𝓜.step c w).refusal x) h

        left_by : Struck → List (Left 𝓜 Struck)
        left_by s = left_from 𝓜 more may (λ i. places (suc i)) s rest

        struck_by : Struck → Struck
        struck_by s = struck_from 𝓜 more may (λ i. places (suc i)) s rest

        go :
            (b : Bool) →
            (places 0 && may (entry 𝓜 c w x)) ≡ b →
            (Like (more c t) (𝓜.step c w).state v → LogLike (noted 𝓜 c (𝓜.step c w).refusal x) y → Same v (𝓜.step c w).state y (left_by (more c t)) (struck_by (more c t)) h) →
            (Like t (𝓜.step c w).state (𝓜.step c v).state → LogLike (noted 𝓜 c (𝓜.step c w).refusal x) (noted 𝓜 c (𝓜.step c v).refusal y) →
            Same (𝓜.step c v).state (𝓜.step c w).state (noted 𝓜 c (𝓜.step c v).refusal y) (left_by t) (struck_by t) h) →
            Same v w y (cond b (left_by (more c t)) (record { entry = entry 𝓜 c w x; struck = t } ∷ left_by t)) (cond b (struck_by (more c t)) (struck_by t)) (c ∷ h)
        go true p ih-struck ih-kept =
            let r = ih-struck (idle c t x w v tied l (right (places 0) _ p)) (unnoted c x y w g (right (places 0) _ p)) in
            record { answers = r.answers; records = r.records; fit = r.fit }
        go false p ih-struck ih-kept =
            let e : (𝓜.step c v).refusal ≡ (𝓜.step c w).refusal = refused_alike c t x w v tied l ne in
            let r = ih-kept (state_alike c t x w v f tied l e) (rw e (log_alike c (𝓜.step c w).refusal x y g)) in
            let head : ◌≡◌ {A = Shown 𝓜} (record { call = c; refusal = (𝓜.step c v).refusal; answer = restore t c (𝓜.step c v).refusal (𝓜.step c v).answer }) (record { call = c; refusal = (𝓜.step c w).refusal; answer = (𝓜.step c w).answer }) =
            λ i. record { call = c; refusal = e i; answer = answered-alike c t x w v tied l e i } in
            record {
              answers = ap₂ (λ (a : Shown 𝓜) (s : List (Shown 𝓜)). a ∷ s) head r.answers;
              records = r.records;
              fit = all_cons {a = entry 𝓜 c v y} (rw e (fits-alike c (𝓜.step c w).refusal x y g f)) r.fit;
            }
