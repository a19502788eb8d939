mod NoLess
