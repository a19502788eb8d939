-- How what the lines of a port work on goes on. Source: this project's own.

-- each state that may have led to the old value goes on to one that may have led to the new one, and this holds between
-- them
pub record GoesOn {State Value : Type 0} (led_to : State → Value → Type 0) (old new : Value)
    (what : State → State → Type 0) : Type 0 where
  pub each : (state : State) → led_to state old → (left : State) × led_to left new × what state left
