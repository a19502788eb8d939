use Rattle.std.proofs.Common.{ℕ, ◌≡◌, List, [], ◌∷◌, Ok, drop, get_or, length, refl, sym, ap, subst, ◌∙◌, arith}
use Rattle.ccan_object.specs.declared.command.CommandMask.{CommandMask}
use Rattle.ccan_object.specs.declared.record.Record.{Record}
use Rattle.ccan_object.specs.declared.register.Reg.TheVariants.{CMask}
use Rattle.ccan_object.specs.Bits.{part}
use Rattle.ccan_object.specs.Command.{command_in}
use Rattle.ccan_object.specs.Interface.{Registers, filled, set_register}
use Rattle.ccan_object.specs.Packing.{packed}
use Rattle.ccan_registers.specs.declared.interface_set.InterfaceSet.{InterfaceSet}
use Rattle.ccan_registers.specs.Format.{IsInterface, interface_words}
use Rattle.ccan_registers.proofs.saved.fields.interface_in.Goals as goal

five : (ws : List ℕ) → length ws ≡ 5
    → ws ≡ get_or ws 0 0 ∷ get_or ws 1 0 ∷ get_or ws 2 0 ∷ get_or ws 3 0 ∷ get_or ws 4 0 ∷ []
five (a ∷ b ∷ c ∷ d ∷ e ∷ []) h = refl
five [] h = absurd (omega arith)
five (a ∷ []) h = absurd (omega arith)
five (a ∷ b ∷ []) h = absurd (omega arith)
five (a ∷ b ∷ c ∷ []) h = absurd (omega arith)
five (a ∷ b ∷ c ∷ d ∷ []) h = absurd (omega arith)
five (a ∷ b ∷ c ∷ d ∷ e ∷ f ∷ more) h = absurd (omega arith)

-- the registers of an interface, by what they hold
made : ℕ → ℕ → Record → InterfaceSet
made asked command buffer =
    record { registers = record { command = record { 0 = command }; buffer = buffer }; asked = asked }

pub returns-clause-found : goal.returns-clause-found
unfolding made
returns-clause-found c =
    let ws = c.args.words in
    let b = c.in-Some.buffer in
    let w0 = get_or ws 0 0 in
    let w1 = get_or ws 1 0 in
    let regs : c.fill.new.self ≡ record { command = command_in w1; buffer = b } =
    c.fill.ensures
    ∙ (ap (λ (m : CommandMask). filled m b c.set.new.self) c.of.ensures
    ∙ (ap (λ (i : Registers). filled (command_in 128) b i) c.set.ensures
    ∙ ap (λ (i : Registers). filled (command_in 128) b (set_register CMask w1 i)) c.new-registers.ensures)) in
    let small : part w1 0 8 ≡ w1 = omega arith in
    let packs = c.in-Some.ensures.packs in
    subst
    (λ (r : Registers). IsInterface c.args.profile (record { registers = r; asked = w0 })
    × (interface_words (record { registers = r; asked = w0 }) ≡ ws))
    (sym regs) (
      record {
        asked = record { least = omega arith; greatest = omega arith };
        command = omega arith;
        buffer = c.in-Some.ensures.is_record;
      },
      ap (λ (l : List ℕ). w0 ∷ part w1 0 8 ∷ l) packs
          ∙ (ap (λ n. w0 ∷ n ∷ get_or ws 2 0 ∷ get_or ws 3 0 ∷ get_or ws 4 0 ∷ []) small ∙ sym (five ws (omega arith))),
    )

pub returns-clause-only : goal.returns-clause-only
unfolding made
returns-clause-only c set are text =
    let ws = c.args.words in
    let b = c.in-Some.buffer in
    let w1 = get_or ws 1 0 in
    let regs : c.fill.new.self ≡ record { command = command_in w1; buffer = b } =
    c.fill.ensures
    ∙ (ap (λ (m : CommandMask). filled m b c.set.new.self) c.of.ensures
    ∙ (ap (λ (i : Registers). filled (command_in 128) b i) c.set.ensures
    ∙ ap (λ (i : Registers). filled (command_in 128) b (set_register CMask w1 i)) c.new-registers.ensures)) in
    let asked : get_or ws 0 0 ≡ set.asked = sym (ap (λ (l : List ℕ). get_or l 0 0) text) in
    let bits : w1 ≡ set.registers.command.0 = sym (ap (λ (l : List ℕ). get_or l 1 0) text) in
    let command : part w1 0 8 ≡ set.registers.command.0 = omega arith in
    let rest : packed set.registers.buffer ≡ get_or ws 2 0 ∷ get_or ws 3 0 ∷ get_or ws 4 0 ∷ [] =
    ap (λ (l : List ℕ). drop 2 l) (text ∙ five ws (omega arith)) in
    let held = c.in-Some.ensures.every set.registers.buffer are.buffer rest in
    let buffer : b ≡ set.registers.buffer = cc in
    ap Ok
    (ap (λ (r : Registers). (let s : InterfaceSet = record { registers = r; asked = get_or ws 0 0 } in s)) regs
    ∙ (λ i. made (asked i) (command i) (buffer i)))
