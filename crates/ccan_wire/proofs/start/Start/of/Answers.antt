use Rattle.std.proofs.Common.{ap, sym, ◌∙◌, ◌&&◌, ◌==◌, length}
use Rattle.std.specs.Prelude.{nat_lt}
use Rattle.ccan_wire.specs.Member.{member_at, sent_by}
use Rattle.ccan_wire.specs.Packed.{key_of, rest_by}
use Rattle.ccan_wire.specs.Winner.{is_among}
use Rattle.ccan_wire.proofs.Members.{read_at}
use Rattle.ccan_wire.proofs.Starting.{collided, nothing, sends_least, won}
use Rattle.ccan_wire.proofs.start.Start.of.Goals as goal

pub returns-in_default : goal.returns-in_default
returns-in_default c =
    let read = read_at c.args.members.now _ _ c.least_place-least.ensures.within c.index-members-least.is in
    nothing c.args.members.now c.least_place-least.result c.least_place-least.ensures
    (sym (ap sent_by read) ∙ (sym c.sent.ensures ∙ c.in_default.is))

pub unreachable-requires : goal.unreachable-requires
unreachable-requires c =
    let ms = c.args.members.now in
    let read = read_at ms _ _ c.least_place-least.ensures.within c.index-members-least.is in
    let again = read_at ms _ _ c.least_place-least.ensures.within c.index-members-least-2.is in
    let key = c.key.ensures ∙ ap key_of again in
    let at_first = read_at ms _ _ c.least_rest-first.ensures.within c.index-members-first.is in
    let none = sym (ap sent_by at_first) ∙ (sym c.sent-2.ensures ∙ c.in_default-sent.is) in
    let some = sends_least ms c.least_place-least.result c.least_place-least.ensures c.in-Some.field-0
    (sym (ap sent_by read) ∙ (sym c.sent.ensures ∙ c.in-Some.is)) c.holders-who.result
    (λ k. c.holders-who.ensures k ∙ ap (λ n. nat_lt k (length ms) && key_of (member_at ms k) == n) key)
    c.least_rest-first.result c.least_rest-first.ensures.least.within in
    let its = some.sends in
    cc

pub returns-in-Some-dissenter : goal.returns-in-Some-dissenter
returns-in-Some-dissenter c =
    let ms = c.args.members.now in
    let read = read_at ms _ _ c.least_place-least.ensures.within c.index-members-least.is in
    let again = read_at ms _ _ c.least_place-least.ensures.within c.index-members-least-2.is in
    let key = c.key.ensures ∙ ap key_of again in
    let at_first = read_at ms _ _ c.least_rest-first.ensures.within c.index-members-first.is in
    collided ms c.least_place-least.result c.least_place-least.ensures c.in-Some.field-0
    (sym (ap sent_by read) ∙ (sym c.sent.ensures ∙ c.in-Some.is)) c.holders-who.result
    (λ k. c.holders-who.ensures k ∙ ap (λ n. nat_lt k (length ms) && key_of (member_at ms k) == n) key)
    c.least_rest-first.result c.least_rest-first.ensures.least c.in-Some-sent.frame
    (sym (ap sent_by at_first) ∙ (sym c.sent-2.ensures ∙ c.in-Some-sent.is))
    c.in-Some-dissenter.field-0 c.in-Some-dissenter.ensures.some

pub returns-in-None : goal.returns-in-None
returns-in-None c =
    let ms = c.args.members.now in
    let read = read_at ms _ _ c.least_place-least.ensures.within c.index-members-least.is in
    let again = read_at ms _ _ c.least_place-least.ensures.within c.index-members-least-2.is in
    let key = c.key.ensures ∙ ap key_of again in
    let at_first = read_at ms _ _ c.least_rest-first.ensures.within c.index-members-first.is in
    let once_more = read_at ms _ _ c.least_rest-first.ensures.within c.index-members-first-in-None.is in
    let rest = c.rest.ensures ∙ ap rest_by once_more in
    won ms c.least_place-least.result c.least_place-least.ensures c.in-Some.field-0
    (sym (ap sent_by read) ∙ (sym c.sent.ensures ∙ c.in-Some.is)) c.holders-who.result
    (λ k. c.holders-who.ensures k ∙ ap (λ n. nat_lt k (length ms) && key_of (member_at ms k) == n) key)
    c.least_rest-first.result c.least_rest-first.ensures.least c.in-Some-sent.frame
    (sym (ap sent_by at_first) ∙ (sym c.sent-2.ensures ∙ c.in-Some-sent.is))
    c.with_rest-senders.result c.except-dropped.result
    (λ k. c.with_rest-senders.ensures k
    ∙ ap (λ n. nat_lt k (length ms) && (is_among c.holders-who.result k && rest_by (member_at ms k) == n)) rest)
    c.except-dropped.ensures c.in-None.ensures.none
