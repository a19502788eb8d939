-- The laws of loop back mode: the other nodes rest, and what they would send is not heard.
use Rattle.std.proofs.Common.{ℕ, ◌≡◌, ◌≢◌, true, false, List, refl, sym, ap, subst, ◌∙◌, inl, inr, Option, Some, None, arith}
use Rattle.std.proofs.lemmas.Bool.Decides.{nat_tests}
use Rattle.ccan_object.specs.declared.record.Record.{Record}
use Rattle.ccan_ram.specs.declared.event.Event.{Event}
use Rattle.ccan_ram.specs.Terms.{Terms}
use Rattle.ccan_confine.specs.declared.bus_event.BusEvent.TheVariants.{Sent}
use Rattle.ccan_confine.specs.Counters.{Bus as BusEventOf}
use Rattle.ccan_bus.specs.declared.answer.LoadAnswer.{LoadAnswer}
use Rattle.ccan_bus.specs.declared.answer.LoadAnswer.TheVariants as load
use Rattle.ccan_bus.specs.declared.round_line.RoundLine.{RoundLine}
use Rattle.ccan_bus.specs.declared.answer.RoundAnswer.{RoundAnswer}
use Rattle.ccan_bus.specs.declared.answer.RoundAnswer.TheVariants as answer
use Rattle.ccan_bus.specs.Past.{BusPast, is_controller, is_on, hears_itself, with_own, sends_to_itself}
use Rattle.ccan_bus.specs.Load.{Loads}
use Rattle.ccan_bus.specs.LoopBack.{AtFinish, AtScan, LoopsBack}
use Rattle.ccan_bus.specs.Round.{Transfers, Continues, refusal_of_round}
use Rattle.ccan_bus.specs.Laws.{OthersRestInLoopBack, LinesAreUnheardInLoopBack}

-- a load changes neither who is on nor the mode
module _ (terms : Terms) (tries : ℕ) (seen added : List Event) (past between : BusPast) where
  loaded_hears : (now : Option (ℕ × Record)) → hears_itself (record past { loaded = now }) ≡ hears_itself past
  unfolding is_on
  loaded_hears now = refl

  still_hears : (loading : LoadAnswer) → Loads terms tries seen added past between loading
      → (hears_itself between ≡ hears_itself past) × ((node : ℕ) → between.events node ≡ past.events node)
  still_hears (load.Loaded object started) l =
      (ap hears_itself l.now_loaded ∙ loaded_hears _, λ node. ap (λ (p : BusPast). p.events node) l.now_loaded)
  still_hears (load.Held object) l = (ap hears_itself l.same, λ node. ap (λ (p : BusPast). p.events node) l.same)
  still_hears load.Nothing (inl l) = (ap hears_itself l.same, λ node. ap (λ (p : BusPast). p.events node) l.same)
  still_hears load.Nothing (inr l) = (ap hears_itself l.same, λ node. ap (λ (p : BusPast). p.events node) l.same)
  still_hears (load.Busy object) l = (ap hears_itself l.2.same, λ node. ap (λ (p : BusPast). p.events node) l.2.same)
  still_hears (load.Spent object) l = (ap hears_itself l.same, λ node. ap (λ (p : BusPast). p.events node) l.same)

rests : (past : BusPast) (node : ℕ) → node ≢ 0 → with_own (BusEventOf Sent) past node ≡ past.events node
unfolding with_own
rests past node other = let e : is_controller node ≡ false = grind (arith, nat_tests) in rw e refl

module _ (terms : Terms) (line : RoundLine) (tries : ℕ) (seen added : List Event) (past after : BusPast) (node : ℕ)
    (other : node ≢ 0) where
  rest_by : after ≡ sends_to_itself past → after.events node ≡ past.events node
  rest_by is = ap (λ (p : BusPast). p.events node) is ∙ rests past node other

  rest_looped : (reply : RoundAnswer) → LoopsBack terms tries seen added past after reply → after.events node ≡ past.events node
  rest_looped answer.Idle h = ap (λ (p : BusPast). p.events node) h.same
  rest_looped (answer.Looped object finished None) h = rest_by h.finish.happened
  rest_looped (answer.Looped object finished (Some found)) h = rest_by h.2.finish.happened
  rest_looped (answer.Busy object) (told, now, AtFinish frame h) = rest_by h.happened
  rest_looped (answer.Busy object) (told, now, AtScan sent finished h) = rest_by h.finish.happened
  rest_looped (answer.Spent object) (AtFinish frame h) = rest_by h.happened
  rest_looped (answer.Spent object) (AtScan sent finished h) = rest_by h.finish.happened
  rest_looped (answer.Sent object finished) h = absurd h
  rest_looped (answer.Received found) h = absurd h
  rest_looped answer.Passed h = absurd h
  rest_looped answer.Collision h = absurd h
  rest_looped answer.NoAck h = absurd h
  rest_looped answer.Fault h = absurd h

  rest_continued : (refusal : Option RoundAnswer) (reply : RoundAnswer) → hears_itself past ≡ true
      → Continues refusal terms line tries seen added past after reply
      → after.events node ≡ past.events node
  rest_continued (Some refusal) reply is h = ap (λ (p : BusPast). p.events node) h.same
  rest_continued None reply is h = rest_looped reply (subst (λ b. Transfers b terms line tries seen added past after reply) is h)

pub others_rest : OthersRestInLoopBack
others_rest terms line tries seen added past after reply r hears node other =
    let same = still_hears terms tries seen r.first past r.between r.loading r.loads in
    rest_continued terms line tries _ r.last r.between after node other (refusal_of_round r.loading) reply
    (same.0 ∙ hears) r.continues ∙ same.1 node

unheard : (refusal : Option RoundAnswer) (terms : Terms) (line other : RoundLine) (tries : ℕ) (seen added : List Event)
    (past after : BusPast) (reply : RoundAnswer)
    → hears_itself past ≡ true → Continues refusal terms line tries seen added past after reply
    → Continues refusal terms other tries seen added past after reply
unheard (Some refusal) terms line other tries seen added past after reply is h = h
unheard None terms line other tries seen added past after reply is h =
    subst (λ b. Transfers b terms other tries seen added past after reply) (sym is)
    (subst (λ b. Transfers b terms line tries seen added past after reply) is h)

pub lines_unheard : LinesAreUnheardInLoopBack
lines_unheard terms line other tries seen added past after reply hears r =
    let same = still_hears terms tries seen r.first past r.between r.loading r.loads in
    record {
      between = r.between;
      loading = r.loading;
      first = r.first;
      last = r.last;
      whole = r.whole;
      loads = r.loads;
      continues = unheard (refusal_of_round r.loading) terms line other tries _ r.last r.between after reply
          (same.0 ∙ hears) r.continues;
    }
