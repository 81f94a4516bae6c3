mod NoneBelow
