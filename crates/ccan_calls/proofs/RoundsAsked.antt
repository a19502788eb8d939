-- A round that C asks for is its process.
use Rattle.std.proofs.Common.{ℕ, ◌≡◌, ◌↔◌, inl, inr, List, [], length, map, Bool, true, false, nat_le, refl, sym, subst, ◌∙◌, if◌then◌else◌}
use Rattle.std.specs.Prelude.{MatchBool, MatchOption}
use Rattle.std.specs.List.{list_all}
use Rattle.std.proofs.lemmas.Bool.{false≢true}
use Rattle.std.proofs.lemmas.List.{append-nil}
use Rattle.ccan_accept.specs.declared.frame.Frame.{Frame}
use Rattle.ccan_ram.specs.Terms.{Terms}
use Rattle.ccan_bus.specs.declared.choice.Choice.TheVariants.{AtOnce}
use Rattle.ccan_bus.specs.declared.round_line.Fault.{Fault}
use Rattle.ccan_bus.specs.declared.round_line.RoundLine.{RoundLine}
use Rattle.ccan_bus.specs.Past.{BusPast}
use Rattle.ccan_bus.specs.RoundLine.{AreSenders}
use Rattle.ccan_process.specs.Process.{Does}
use Rattle.ccan_chip.specs.declared.chip_report.ChipReport.{ChipReport}
use Rattle.ccan_line.specs.Limits.{most_frames}
use Rattle.ccan_endless.specs.Chip.{ChipHistory}
use Rattle.ccan_registers.specs.Rounds.{RoundOnChip}
use Rattle.ccan_c.specs.declared.offer.Offer.{Offer}
use Rattle.ccan_c.specs.declared.shown_outcome.ShownOutcome.{ShownOutcome}
use Rattle.ccan_c.specs.BusCall.{RoundPlayed, RoundTried}
use Rattle.ccan_c.specs.Codes.{fault_range, frame_range, frames_range, senders}
use Rattle.ccan_c.specs.Outcome.{c_outcome, code_of_round}
use Rattle.ccan_c.specs.Round.{fault_numbered, is_frame, sending_of}
use Rattle.ccan_c.specs.Step.{Rests}
use Rattle.ccan_calls.specs.Answer.{CallProcess, OutcomeAt, refuses}
use Rattle.ccan_calls.specs.BusCallProcess.{asked_round, round_end}
use Rattle.ccan_calls.specs.Laws.{ComesTo}
use Rattle.ccan_calls.specs.Process.{Offers, ending}
use Rattle.ccan_calls.specs.RoundProcess.{RoundTold, are_senders, rounds}
use Rattle.ccan_calls.specs.Runs.{Runs}
use Rattle.ccan_calls.proofs.Comes.{chosen, ends_with, picked, rests}
use Rattle.ccan_calls.proofs.Processes.{after_none}
use Rattle.ccan_calls.proofs.RoundsRun.{rounds_so}
use Rattle.ccan_calls.proofs.Senders.{senders_so}

module _ (terms : Terms) (tries nodes : ℕ) (past after : BusPast) (at_once : past.choice ≡ AtOnce) (seen added : ChipHistory)
    (result : ℕ) (out : ShownOutcome) where
  abbrev Comes : CallProcess BusPast → Type 0
  Comes process = ComesTo terms tries result (OutcomeAt out) process seen added after

  refused : (code : ℕ) → Rests code past after added result ↔ Comes (refuses code past)
  refused code = rests terms tries result (OutcomeAt out) after seen added code past

  module _ (offers : List Offer) (fault : Fault) where
    abbrev sends : List (ℕ × Frame)
    sends = map sending_of offers

    abbrev by_line : RoundLine → CallProcess BusPast
    by_line line = ending (rounds terms.profile line past) round_end

    abbrev Played : Type 0
    Played = RoundPlayed terms tries nodes offers fault past seen added after result out

    round_is : (line : RoundLine) → ((told : ChipReport) × RoundOnChip terms line tries past seen added after told
        × (result ≡ code_of_round told) × (out ≡ c_outcome told)) ↔ Comes (by_line line)
    round_is line =
        let all = ends_with terms tries result (OutcomeAt out) after seen added
        (λ (end : RoundTold). RoundOnChip terms line tries past seen added end.1 end.0) (rounds terms.profile line past) round_end
        (λ end. rounds_so terms tries line past at_once seen added end) in (
          λ h. let (told, so, code, is) = h in all.0 ((told, after), so, (code, is, refl)),
          λ h.
              let (end, so, got) = all.1 h in (
                end.0,
                subst (λ p. RoundOnChip terms line tries past seen added p end.0) (sym got.2) so,
                got.0,
                got.1,
              ),
        )

    -- the line of the round is there without a step
    to_offered : Played → Comes (Does (Offers sends fault) by_line)
    to_offered h =
        let (told, got, on) = (round_is h.round).0 (h.report, h.runs, h.code_is, h.shows) in (
          told,
          got,
          (
            h.round,
            record {
              earlier = [];
              later = added;
              whole = sym (append-nil added);
              begins = (refl, record { frames = h.is_round.sends; fault_is = h.is_round.fault_is });
              ends = on;
            },
          ),
        )

    of_offered : AreSenders nodes sends → Comes (Does (Offers sends fault) by_line) → Played
    of_offered are (told, got, (line, steps)) =
        let (none, is_line) = steps.begins in
        let on = after_none (λ s a. Runs terms tries (by_line line) s a (told, after)) seen added steps.earlier steps.later
        steps.whole none steps.ends in
        let (report, runs, code, shows) = (round_is line).1 (told, got, on) in
        record {
          round = line;
          is_round = record { sends = is_line.frames; fault_is = is_line.fault_is };
          are_senders = are;
          report = report;
          runs = runs;
          code_is = code;
          shows = shows;
        }

    by_senders : (b : Bool) → are_senders nodes sends ≡ b
        → RoundTried terms tries nodes offers fault past seen added after result out
        ↔ Comes (if b then Does (Offers sends fault) by_line else refuses senders past)
    by_senders true is =
        let are = (senders_so nodes sends).0 is in (
          λ h. elim h [
            | inl played ↦ to_offered played
            | inr refusal ↦ absurd (refusal.0 are)
          ],
          λ h. inl (of_offered are h),
        )
    by_senders false is =
        let not_so : AreSenders nodes sends → ⊥ = λ are. false≢true (sym is ∙ (senders_so nodes sends).1 are) in (
          λ h. elim h [
            | inl played ↦ absurd (not_so played.are_senders)
            | inr refusal ↦ (refused senders).0 refusal.1
          ],
          λ h. inr (not_so, (refused senders).1 h),
        )

  pub round_asked : (offers : List Offer) (number : ℕ)
      → MatchBool (nat_le (length offers) most_frames)
      (MatchBool (list_all is_frame offers)
      (MatchOption (fault_numbered number) (Rests fault_range past after added result)
      (λ fault. RoundTried terms tries nodes offers fault past seen added after result out))
      (Rests frame_range past after added result))
      (Rests frames_range past after added result)
      ↔ Comes (asked_round terms.profile nodes offers number past)
  round_asked offers number =
      chosen terms tries result (OutcomeAt out) after seen added (nat_le (length offers) most_frames) _ _ _ _
      (chosen terms tries result (OutcomeAt out) after seen added (list_all is_frame offers) _ _ _ _
      (picked terms tries result (OutcomeAt out) after seen added (fault_numbered number) _ _ _ _ (refused fault_range)
      (λ fault. by_senders offers fault (are_senders nodes (map sending_of offers)) refl))
      (refused frame_range)) (refused frames_range)
