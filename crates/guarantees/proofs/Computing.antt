-- One name that opens every definition of the three layers: a theorem by computation says `unfolding computing`.
use mathlib.Core.List.{flat_map}
use Rattle.text_lexical.specs.Bytes.{bytes, between, letter, digit, hex_digit, binary_digit, blank, edge, mark, name_start, name_part, ascii, lower, every, one_or_more, same, before, run, after, find, is_some, each, inside, margin}
use Rattle.text_lexical.specs.Numbers.{digit_value, value_from, value_of, minus, residue, meant_by, is_signed, is_unsigned, lies_in, decimal_in, decimal, signed_decimal, little, unlittle}
use Rattle.text_lexical.specs.Names.{name, named, numbered, conventional, present}
use Rattle.text_lexical.specs.Promised.{packed, key_of}
use Rattle.text.specs.Tokens.{is_identifier, is_register, is_number, is_prefixed, is_directive, is_mark, is_in, classes, class_of, longest, within, number_token, pattern_token, register_token, mark_token, token_of, sized, matched, front, infront, tokens_past, tokens}
use Rattle.text.specs.Lines.{extended, lines, kept_byte, trim_end, trim, cut, content, indent, line_of, record_of, read_line}
use Rattle.text.specs.NameSets.{is_numbered}
use Rattle.text.specs.Places.{rest_at, left_at, end_at}
use Rattle.instruction.specs.Table.{places, row, table, row_named, row_coded}
use Rattle.text.specs.Values.{read_decimal, read_pattern, read_number}
use Rattle.instruction.specs.Operands.{read_identifier, read_register, mark_byte, read_exactly, read_amount, no_operands, with_register, with_amount, read_place, read_operands, made, read_row, read_mnemonic, read_instruction, behind}
use Rattle.instruction.specs.Words.{modulo, reduced, fields, word_of, field_at, registers_in, number_in, unused_from, taken, instruction_of}
use Rattle.instruction.specs.Text.{register_text, number_text, places_text, operands_text, instruction_text}
use Rattle.image.specs.Settings.{settings, begin, settings_fault, limb_bits_key, data_limbs_key, addr_limbs_key, set_field, checked, setting_range, configured_by, configured_with, configured}
use Rattle.image.specs.Program.{magic, version, entry, stack_size, header_bytes, header_size, header_for, image, image_length, number_at, header_of, code_of, data_of}
use Rattle.image.specs.Opening.{header_fault, opening_fault, opening}
use Rattle.instruction.specs.Kinds.{identifier_kind, kind_of}
use Rattle.image.specs.Assembling.{start, is_known, address_of, address_after, with_label, enter, setting, coding, after_label, read_kind, read_on, changed_by, context_after, reads_from, reads, entering, with_settings, most_words, with_instruction, doing, step, context_of, walk, words_of as effect_words, is_labelled, address_in, distance, in_reach, amount_fault, draft_fault, target_fault, first_fault, fault_in, rust_line_of, refusing, line_refused, read_to, most_bytes, reading, fitted, assembling}
use Rattle.image.specs.Listing.{words_of, line_text, setting_text, settings_text, word_text, text_of, refusal, is_usual, words_fault, listing_fault, listing}
use Rattle.image.specs.Meaning.{resolved, settled, coded_by, coded_in, instructions_of, is_target, names_target, any_target, settings_in, settings_of, image_of, is_accepted, is_written}
use Rattle.image.specs.Lent.{over, answer_of, entered, image_after, list_answer_of, text_after}

unfoldable pub computing : Unit {0}
unfolding flat_map bytes between letter digit hex_digit binary_digit blank edge mark name_start name_part ascii lower every one_or_more same before run after find is_some each digit_value value_from value_of minus residue meant_by is_signed is_unsigned lies_in decimal_in decimal signed_decimal little unlittle name named numbered conventional present is_identifier is_register is_number is_prefixed is_directive is_mark is_in classes class_of longest within number_token pattern_token register_token mark_token token_of sized matched front infront tokens_past tokens extended lines kept_byte trim_end trim cut content indent line_of record_of read_line is_numbered inside rest_at left_at end_at margin packed key_of places row table row_named row_coded read_decimal read_pattern read_number read_identifier read_register mark_byte read_exactly read_amount no_operands with_register with_amount read_place read_operands made read_row read_mnemonic read_instruction behind modulo reduced fields word_of field_at registers_in number_in unused_from taken instruction_of register_text number_text places_text operands_text instruction_text settings begin settings_fault limb_bits_key data_limbs_key addr_limbs_key set_field checked setting_range configured_by configured_with configured magic version entry stack_size header_bytes header_size header_for image image_length number_at header_of code_of data_of header_fault opening_fault opening start identifier_kind kind_of is_known address_of address_after with_label enter setting coding after_label read_kind read_on changed_by context_after reads_from reads entering with_settings most_words with_instruction doing step context_of walk effect_words is_labelled address_in distance in_reach amount_fault draft_fault target_fault first_fault fault_in rust_line_of refusing line_refused read_to most_bytes reading fitted assembling words_of line_text setting_text settings_text word_text text_of refusal is_usual words_fault listing_fault listing resolved settled coded_by coded_in instructions_of is_target names_target any_target settings_in settings_of image_of is_accepted is_written over answer_of entered image_after list_answer_of text_after
computing = tt
