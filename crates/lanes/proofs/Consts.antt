-- The constants' bits. Assumes nothing.
use mathlib.Core.Path.{◌≡◌, refl}
use lib.Ieee.{binary64, of_bits, of_int, round}
use Rattle.lanes.specs.Arithmetic.{null, one}
use Rattle.lanes.specs.Constants.{one_bits, start_value, start_bits, centring_value, centring_bits, damping_value, damping_bits, PatternsExact}

pub null_bits : of_bits binary64 0 ≡ null
unfolding of_bits of_int
null_bits = refl

pub one_bits_lem : of_bits binary64 one_bits ≡ one
unfolding of_bits of_int
one_bits_lem = refl

pub thousand_bits : of_bits binary64 start_bits ≡ start_value
unfolding of_bits of_int
thousand_bits = refl

pub tenth_bits : of_bits binary64 centring_bits ≡ centring_value
unfolding of_bits round
tenth_bits = refl

pub damping_bits_lem : of_bits binary64 damping_bits ≡ damping_value
unfolding of_bits round
damping_bits_lem = refl

pub patterns_exact : PatternsExact
patterns_exact = (thousand_bits, tenth_bits, damping_bits_lem)
