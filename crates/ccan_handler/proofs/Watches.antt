-- Looks, one after another.
use Rattle.std.proofs.Common.{ℕ, ◌≡◌, ◌<◌, ◌+◌, ◌^◌, true, false, cond, List, [], ◌∷◌, ◌++◌, length, refl, sym, ap, subst, ◌∙◌, arith, inl, inr}
use Rattle.ccan_object.specs.declared.record.Record.{Record}
use Rattle.ccan_ram.specs.declared.event.Event.{Event}
use Rattle.ccan_ram.specs.declared.flag.Flag.{Flag}
use Rattle.ccan_ram.specs.declared.flag.Flag.TheVariants.{IntPnd}
use Rattle.ccan_ram.specs.Flags.{flag_of}
use Rattle.ccan_ram.specs.HandlerRegisters.{flag_word}
use Rattle.ccan_ram.specs.Terms.{Terms}
use Rattle.ccan_ram.specs.Attempt.{IsLook}
use Rattle.ccan_ram.specs.Access.{Passes, Goes}
use Rattle.ccan_ram.proofs.Calls.{Goes-then, Goes-none, Goes-weaker}
use Rattle.ccan_object.specs.Profile.{objects_in}
use Rattle.ccan_handler.specs.Watch.{Looks, in_turn, NoneShows, FirstShows, Interrupts, ReadsSome, ReadsFlags}

-- before the first look
pub none_yet : {x : Passes} (place : ℕ → ℕ) (flag : Flag) → Goes x x (λ terms seen added. NoneShows terms place flag 0 added)
none_yet place flag = Goes-none (λ seen here. record { shown = []; looks = refl; counted = refl; none = refl })

pub nothing_read : {x : Passes} (flag : Flag) → Goes x x (λ terms seen added. ReadsSome terms flag 0 added 0)
nothing_read flag = Goes-none (λ seen here. record { shown = []; looks = refl; counted = refl; is = refl })

-- one more look after so many
more : (terms : Terms) (place : ℕ → ℕ) (n object : ℕ) (shown : Record) (before : List Record) (xs ys : List Event)
    → object ≡ place n
    → length before ≡ n
    → Looks terms place before xs → IsLook terms object shown ys → Looks terms place (shown ∷ before) (ys ++ xs)
more terms place n object shown before xs ys at counted looks here =
    (ys, xs, refl, subst (λ k. IsLook terms k shown ys) (at ∙ ap place (sym counted)) here, looks)

module _ {x y z : Passes} (place : ℕ
    → ℕ) (n object : ℕ) (shown : Record) (look : Goes y z (λ terms seen added. IsLook terms object shown added))
    (at : object ≡ place n)
  where
    module _ (flag : Flag) where
      -- it does not show the flag
      pub none_more : flag_of flag shown ≡ false → Goes x y (λ terms seen added. NoneShows terms place flag n added)
          → Goes x z (λ terms seen added. NoneShows terms place flag (n + 1) added)
      none_more unset so_far =
          Goes-then so_far look (λ seen xs ys p q. record {
            shown = shown ∷ p.shown;
            looks = more x.terms place n object shown p.shown xs ys at p.counted p.looks q;
            counted = omega (arith, p.counted);
            none = rw unset p.none;
          })

      -- it shows the flag
      pub first_shows : flag_of flag shown ≡ true → Goes x y (λ terms seen added. NoneShows terms place flag n added)
          → Goes x z (λ terms seen added. FirstShows terms place flag n added)
      first_shows set so_far =
          Goes-then so_far look (λ seen xs ys p q. record {
            last = shown;
            before = p.shown;
            looks = more x.terms place n object shown p.shown xs ys at p.counted p.looks q;
            counted = p.counted;
            none = p.none;
            shows = set;
          })

-- one more bit of the word
pub reads_more : {x y z : Passes} (flag : Flag) (n object low word : ℕ) (shown : Record)
    → Goes y z (λ terms seen added. IsLook terms object shown added) → object ≡ n + 1
    → word ≡ low + cond (flag_of flag shown) (2 ^ n) 0
    → Goes x y (λ terms seen added. ReadsSome terms flag n added low)
    → Goes x z (λ terms seen added. ReadsSome terms flag (n + 1) added word)
reads_more {x} flag n object low word shown look at is so_far =
    Goes-then so_far look (λ seen xs ys p q. record {
      shown = shown ∷ p.shown;
      looks = more x.terms in_turn n object shown p.shown xs ys at p.counted p.looks q;
      counted = omega (arith, p.counted);
      is = is ∙ (ap (λ k. k + cond (flag_of flag shown) (2 ^ n) 0) p.is
          ∙ ap (λ k. flag_word flag p.shown + cond (flag_of flag shown) (2 ^ k) 0) (sym p.counted));
    })

-- as many looks as there are objects
pub none_at_all : {x y : Passes} (n : ℕ) → n ≡ objects_in x.terms.profile
    → Goes x y (λ terms seen added. NoneShows terms in_turn IntPnd n added)
    → Goes x y (λ terms seen added. Interrupts terms false added 0)
none_at_all {x} n all none =
    Goes-weaker none (λ seen added here after p. inl (refl, subst (λ k. NoneShows x.terms in_turn IntPnd k added) all p))

pub asks : {x y : Passes} (n value : ℕ) → n < objects_in x.terms.profile → value ≡ n + 1
    → Goes x y (λ terms seen added. FirstShows terms in_turn IntPnd n added)
    → Goes x y (λ terms seen added. Interrupts terms false added value)
asks n value within is first = Goes-weaker first (λ seen added here after p. inr (n, within, is, p))

pub all_read : {x y : Passes} (flag : Flag) (n word : ℕ) → n ≡ objects_in x.terms.profile
    → Goes x y (λ terms seen added. ReadsSome terms flag n added word)
    → Goes x y (λ terms seen added. ReadsFlags terms flag added word)
all_read {x} flag n word all reads = Goes-weaker reads
    (λ seen added here after p. subst (λ k. ReadsSome x.terms flag k added word) all p)
