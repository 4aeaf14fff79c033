-- The worked examples hold, by computation.
use mathlib.Core.Path.{refl}
use Rattle.places.specs.Sets.{word_by_word, difference, within, least, looked_at}
use Rattle.places.specs.Examples.{ComparisonExamples}

pub worked_examples : ComparisonExamples
unfolding word_by_word difference within least looked_at
worked_examples = record {
  in_word_0 = (refl, refl);
  in_word_3 = (refl, refl);
  in_word_7 = (refl, refl);
  in_none = (refl, refl);
  more = (refl, refl);
  more_before = (refl, refl);
  more_there = (refl, refl);
  more_after = (refl, refl);
  in_two = (refl, refl);
  two_in_one = (refl, refl);
  no_words = (refl, refl);
  one_word = (refl, refl);
  one_missing = (refl, refl);
  last_of_three = (refl, refl);
  ninth_of_ten = (refl, refl);
  second_shorter = (refl, refl);
  second_too_short = (refl, refl);
  second_longer = (refl, refl);
}
